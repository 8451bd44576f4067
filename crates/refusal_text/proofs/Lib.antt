-- The laws that the proofs cite. `Put`: a text stored as far as there is room. `Rows`: the rows of the refusals in an array.
pub mod Put
pub mod Rows
