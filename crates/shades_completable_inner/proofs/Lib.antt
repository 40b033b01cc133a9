-- What the loop of `shades_completable_inner` rests on, over plain lists (Testing).
pub mod Testing
