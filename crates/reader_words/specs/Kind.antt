-- `Kind` of row_kinds as words. Written by tools/words.
use Rattle.std.specs.Prelude.{eqb, cond}
use Rattle.reader_words.specs.declared.kind.KindWords.{KindWords}
use Rattle.row_kinds.specs.declared.kind.Kind.TheVariants.{Freeze, Relief, Econ}
use Rattle.row_kinds.specs.declared.kind.Kind.{Kind}

-- `Kind` as words
unfoldable pub kind_words : Kind → KindWords
kind_words Freeze = record { variant = 0 }
kind_words Relief = record { variant = 1 }
kind_words Econ = record { variant = 2 }

-- the `Kind` that words stand for; a number that no variant has is read as `Econ`
unfoldable pub kind_of : KindWords → Kind
kind_of w = cond (eqb w.variant 0) Freeze (cond (eqb w.variant 1) Relief Econ)
