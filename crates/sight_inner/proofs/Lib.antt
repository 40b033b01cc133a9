-- Both sides put together (Both).
pub mod Both
