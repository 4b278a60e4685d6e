-- That the words of the economizer stand for it. Written by tools/words.
pub mod Back
