-- Sectors packed by hand, as one table (Cases).
pub mod Cases
