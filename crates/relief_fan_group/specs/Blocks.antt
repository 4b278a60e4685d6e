-- The blocks and the signals after a past, stepped over its rows: what the theorems of proofs/ speak of.
use Rattle.std.specs.Prelude.{[], ◌∷◌}
use Rattle.past.specs.Stepped.{stepped}
use Rattle.relief_fan_group.specs.declared.types.ReliefRow.{ReliefRow}
use Rattle.relief_fan_group.specs.declared.types.ReliefBlocks.{ReliefBlocks}
use Rattle.relief_fan_group.specs.declared.types.ReliefSignals.{ReliefSignals}
use Rattle.relief_fan_group.specs.Signals.{relief_signals}
use Rattle.relief_fan_group.specs.Step.{relief_blocks, relief_next}
use Rattle.relief_fan_group.specs.Reading.{Past, mean}

-- the blocks one row further, at the newest row of a past
abbrev pub next_of : ReliefBlocks → Past → ReliefBlocks
next_of blocks [] = blocks
next_of blocks (x ∷ h) = relief_next blocks x (relief_signals blocks x (mean (x ∷ h)))

-- the blocks after a past
unfoldable pub blocks_of : Past → ReliefBlocks
blocks_of h = stepped relief_blocks next_of h

-- the signals of a row after a past
abbrev pub signals_of : ReliefRow → Past → ReliefSignals
signals_of x h = relief_signals (blocks_of h) x (mean (x ∷ h))
