-- `usbfs_iso::usbfs_iso_plan` meets its contract, which is that of `figures::plan_figures`: the speed's signed number is handed on as it is. Assumes nothing.
use mir.Syntax.{w32}
use mir.ValLaws.{to_z-of_z}
use Rattle.usbfs_iso.proofs.facts.usbfs_iso_plan.Goals as goal

pub returns : goal.returns
returns c = rw (to_z-of_z w32 c.args.speed c.ranges.speed) at c.plan_figures.ensures
