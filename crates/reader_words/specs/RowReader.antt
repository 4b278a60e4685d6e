-- `RowReader` of row_kinds as words. Written by tools/words.
use Rattle.reader_words.specs.declared.row_reader.RowReaderWords.{RowReaderWords}
use Rattle.row_kinds.specs.declared.types.RowReader.{RowReader}
use Rattle.econ_words.specs.Economizer.{economizer_words, economizer_of}
use Rattle.freeze_words.specs.Freeze.{freeze_words, freeze_of}
use Rattle.reader_words.specs.Phase.{phase_words, phase_of}
use Rattle.relief_words.specs.Relief.{relief_words, relief_of}

-- `RowReader` as words
unfoldable pub row_reader_words : RowReader → RowReaderWords
row_reader_words s = record {
  phase = phase_words s.phase;
  freeze = freeze_words s.freeze;
  relief = relief_words s.relief;
  econ = economizer_words s.econ;
}

-- the `RowReader` that words stand for
unfoldable pub row_reader_of : RowReaderWords → RowReader
row_reader_of w = record {
  phase = phase_of w.phase;
  freeze = freeze_of w.freeze;
  relief = relief_of w.relief;
  econ = economizer_of w.econ;
}
