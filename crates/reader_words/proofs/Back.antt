-- The words of a value stand for the value. Written by tools/words.
use mathlib.Core.Path.{◌≡◌, refl}
use Rattle.row_kinds.specs.declared.kind.Kind.TheVariants.{Freeze, Relief, Econ}
use Rattle.row_kinds.specs.declared.kind.Kind.{Kind}
use Rattle.row_kinds.specs.declared.kind.Phase.TheVariants.{First, Rows, Stopped}
use Rattle.row_kinds.specs.declared.kind.Phase.{Phase}
use Rattle.row_kinds.specs.declared.types.RowReader.{RowReader}
use Rattle.econ_words.proofs.Back.{economizer_back}
use Rattle.freeze_words.proofs.Back.{freeze_back}
use Rattle.reader_words.specs.Kind.{kind_words, kind_of}
use Rattle.reader_words.specs.Phase.{phase_words, phase_of}
use Rattle.reader_words.specs.RowReader.{row_reader_words, row_reader_of}
use Rattle.relief_words.proofs.Back.{relief_back}

pub kind_back : (s : Kind) → kind_of (kind_words s) ≡ s
unfolding kind_of kind_words
kind_back Freeze = refl
kind_back Relief = refl
kind_back Econ = refl

pub phase_back : (s : Phase) → phase_of (phase_words s) ≡ s
unfolding phase_of phase_words
phase_back First = refl
phase_back (Rows x) = λ i. Rows (kind_back x i)
phase_back Stopped = refl

pub row_reader_back : (s : RowReader) → row_reader_of (row_reader_words s) ≡ s
unfolding row_reader_of row_reader_words
row_reader_back s = λ i. record {
  phase = phase_back s.phase i;
  freeze = freeze_back s.freeze i;
  relief = relief_back s.relief i;
  econ = economizer_back s.econ i;
}
