-- Powers that stay small (Powers), and what the sums over the divisors are (Sums).
pub mod Powers
pub mod Sums
