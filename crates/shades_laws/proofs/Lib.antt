-- When a Lyndon word al can be completed by given letters to a necklace: a test by a pool of words, and why it is right. No arrangement of letters is
-- ever tried. Read from top to bottom:
--     Under       one word lies under another: the first difference stands inside both
--     Copies      lists of words, and rearrangements told by counting copies
--     Occurs      how often a shade stands in a word
--     Clear       lists of which no ending lies under the necklace; the letters of a completion are one
--     Exchange    in such a list some copy of the least word can be joined with some copy of the greatest
--     Shape       the order in which the pool stands, and that joining keeps it
--     Lowest      words that lie under each of their proper endings
--     Product     such words that do not fall, one behind the other, are a necklace
--     Made        the pool's words are such words
--     Pool        the pool's steps, and the theorems: where it is stuck there is no completion, where its least word is not before al there is one
--     Sums        sums of the first counts
--     Letters     the letters of given counts in increasing order
--     Groups      the pool told by its groups of equal words, as a loop over arrays sees it
pub mod Under
pub mod Copies
pub mod Occurs
pub mod Clear
pub mod Exchange
pub mod Shape
pub mod Lowest
pub mod Product
pub mod Made
pub mod Pool
pub mod Sums
pub mod Letters
pub mod Groups
