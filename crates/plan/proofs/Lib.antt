-- Laws of the plan of a line: the plan of the numbers that it spells (Plans), that no line has two plans (Unique), and that a line's first characters decide it
-- (First).
pub mod Plans
