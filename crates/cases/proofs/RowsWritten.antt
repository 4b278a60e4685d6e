-- Rows written, computed: the row of the example of 'Row lines', and a row of edges, which reads back. Assumes nothing.
use mathlib.Core.Path.{◌≡◌, refl}
use mathlib.Core.List.{◌++◌}
use lib.Ieee.{round, of_bits, to_bits}
use Rattle.columns.specs.Scan.{digit, decimal}
use Rattle.columns.specs.Column.{column}
use Rattle.columns.specs.Forms.{is_word, word_column, read_word, columns_good, well_formed, words_of, line_of}
use Rattle.columns.specs.Word.{word_signed}
use Rattle.columns.specs.Line.{end_of_line, words_line}
use Rattle.line_stream.specs.RowKind.{Row, row_line}
use Rattle.econ_lines.specs.Econ.{econ_row_of, econ_row_words, econ_line, econ_row_text}
use Rattle.cases.specs.RowLines.{bytes_of, row_text}
use Rattle.cases.specs.RowsWritten.{edges, edges_text}
use Rattle.cases.proofs.RowLinesExample.{row}

pub example_row_is_written : econ_row_text row ≡ row_text ++ end_of_line
unfolding row words_line line_of econ_row_words word_column column to_bits of_bits round row_text bytes_of
example_row_is_written = refl

pub edges_are_written : econ_row_text edges ≡ edges_text ++ end_of_line
unfolding edges words_line line_of econ_row_words word_column column to_bits of_bits edges_text bytes_of
edges_are_written = refl

pub edges_are_read : econ_line edges_text ≡ Row edges
unfolding edges row_line econ_row_of edges_text bytes_of digit decimal column well_formed columns_good words_of is_word word_column read_word word_signed of_bits
edges_are_read = refl
