-- That the words of the blocks that states are made of stand for it. Written by tools/words.
pub mod Elements
pub mod Back
