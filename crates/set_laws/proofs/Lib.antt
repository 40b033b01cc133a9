-- The theorems about target sets: lists of words (Lists), Lyndon words kept from all readings and what is left of them (Kept), the greedy choice by any test a word at a time
-- (Choice), the set that it takes (Chosen), what a set by distance is worth (Worth), and the places that it is laid into (Places).
pub mod Lists
pub mod Kept
pub mod Choice
pub mod Chosen
pub mod Worth
pub mod Places
