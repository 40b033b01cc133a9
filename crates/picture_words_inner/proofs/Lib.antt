-- From what is placed to what the words behind the number print (Words).
pub mod Words
