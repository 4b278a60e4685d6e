-- `ReliefHeld` of relief_fan_group as words. Written by tools/words.
use Rattle.relief_fan_group.specs.declared.types.ReliefHeld.{ReliefHeld}
use Rattle.relief_words.specs.declared.relief.ReliefWords.{ReliefWords}
use Rattle.block_words.specs.Integrator.{integrator_words, integrator_of}
use Rattle.relief_words.specs.ReliefBlocks.{relief_blocks_words, relief_blocks_of}

-- `ReliefHeld` as words
unfoldable pub relief_words : ReliefHeld → ReliefWords
relief_words s = record {
  integrator = integrator_words s.integrator;
  blocks = relief_blocks_words s.blocks;
}

-- the `ReliefHeld` that words stand for
unfoldable pub relief_of : ReliefWords → ReliefHeld
relief_of w = record {
  integrator = integrator_of w.integrator;
  blocks = relief_blocks_of w.blocks;
}
