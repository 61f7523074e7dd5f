pub mod Polytope
