-- What the scan of a reading finds (Beginning).
pub mod Beginning
