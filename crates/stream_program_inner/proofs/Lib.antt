-- Why a program stops (Stopping).
pub mod Stopping
