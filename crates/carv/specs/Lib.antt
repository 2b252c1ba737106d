-- The root of the crate's definitions. What a reader must believe, beside those of the crates below: C, what a C function tells; Demands, the three demands and the file to
-- open first; Overspending, P3: no period overspent; Charging, what P7 is said with. laws/ proves them.
pub mod C
pub mod Demands
pub mod Overspending
pub mod Charging
