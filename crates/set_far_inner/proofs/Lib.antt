-- By the counts and by the turns, over plain lists (Far).
pub mod Far
