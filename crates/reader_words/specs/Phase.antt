-- `Phase` of row_kinds as words. Written by tools/words.
use Rattle.std.specs.Prelude.{eqb, cond}
use Rattle.reader_words.specs.declared.phase.PhaseWords.{PhaseWords}
use Rattle.row_kinds.specs.declared.kind.Phase.TheVariants.{First, Rows, Stopped}
use Rattle.row_kinds.specs.declared.kind.Phase.{Phase}
use Rattle.reader_words.specs.Kind.{kind_words, kind_of}

-- `Phase` as words
unfoldable pub phase_words : Phase → PhaseWords
phase_words First = record { variant = 0; rows = record { variant = 0 } }
phase_words (Rows x) = record { variant = 1; rows = kind_words x }
phase_words Stopped = record { variant = 2; rows = record { variant = 0 } }

-- the `Phase` that words stand for; a number that no variant has is read as `Stopped`
unfoldable pub phase_of : PhaseWords → Phase
phase_of w = cond (eqb w.variant 0) First (cond (eqb w.variant 1) (Rows (kind_of w.rows)) Stopped)
