-- That the words of the joined row stand for it. Written by tools/words.
pub mod Back
