-- Sectors looked at part after part (Parts).
pub mod Parts
