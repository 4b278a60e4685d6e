-- That the words of the row reader stand for it. Written by tools/words.
pub mod Back
