-- Necklaces by their periods. In order: totals over readings (Totals) and over the full walk (WalkTotals), then the necklaces and all readings grouped by the
-- Lyndon words that they repeat (Grouped).
pub mod Totals
pub mod WalkTotals
pub mod Grouped
