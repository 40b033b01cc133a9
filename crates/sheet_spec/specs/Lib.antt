-- Sheets of targets, read from top to bottom.
--     Layout   where the targets stand on a page
--     Text     the text of a target on its page, of a page and of a sheet
--     Says     what placing a target promises
pub mod Layout
pub mod Text
pub mod Says
