-- That the words of freeze protection stand for it. Written by tools/words.
pub mod Back
