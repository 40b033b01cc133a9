-- What a listing has behind it when it stands at a ring (Standing); all else that the theorems of this crate are about is defined in `listing_spec`.
pub mod Standing
