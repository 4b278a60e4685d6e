-- That the words of the relief fan group stand for it. Written by tools/words.
pub mod Back
