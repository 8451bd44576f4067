-- What other crates may cite. `Runs`: a record that keeps step with the ledger. `Logs`: its log is the ledger's. `Holds`: what holds of any such
-- record. `Demand3`: the theorem. `Table`: request 2026-11. `Shutdown`: request 2026-12, over `Idle` and `Since`; `Reached`: a host whose calls keep
-- their promise. The others say what an entry says and does, call by call, and what the words come to over a list (`Lists`).
pub mod Entries
pub mod Marks
pub mod Hands
pub mod Filtered
pub mod Order
pub mod Totals
pub mod Effects
pub mod Answers
pub mod Gates
pub mod Submits
pub mod Notices
pub mod Steps
pub mod Lists
pub mod Runs
pub mod Logs
pub mod Holds
pub mod Demand3
pub mod Table
pub mod Reached
pub mod Idle
pub mod Since
pub mod Shutdown
