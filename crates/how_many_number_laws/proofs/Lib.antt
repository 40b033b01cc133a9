-- The theorems about `how_many_number_spec`, for all numbers from 1 on. In order: sums (Sums), sums over divisors (Divide), the greatest common divisor (Gcd), phi (Phi),
-- primes (Prime), mu (Mu); then one turn of each loop that computes them (Loops).
pub mod Sums
pub mod Divide
pub mod Gcd
pub mod Phi
pub mod Prime
pub mod Mu
pub mod Loops
