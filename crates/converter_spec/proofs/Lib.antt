-- The front record of a record (Fronts), that converting has one answer (Unique), what it gives (Through), and catalogues to check by hand (Cases).
pub mod Fronts
pub mod Unique
pub mod Through
pub mod Cases
