-- A stream of bytes as lines (docs/ROW_FILES.md), with byte 10 after each, and each answered from a state of any type Q.
use Rattle.std.specs.Prelude.{ℕ, suc, ◌+◌, ◌-◌, ◌≤◌, ◌≡◌, List, [], ◌∷◌, ◌++◌, cond, length, take, drop, ltb, eqb}
use Rattle.columns.specs.Line.{newline}
use Rattle.columns.specs.Column.{Wrote}

-- ---- the whole stream

-- the lines that a newline ends in some bytes, where the bytes p stand before them
unfoldable pub lines_after : List ℕ → List ℕ → List (List ℕ)
lines_after p [] = []
lines_after p (b ∷ bytes) = cond (eqb b newline) (p ∷ lines_after [] bytes) (lines_after (p ++ (b ∷ [])) bytes)

-- the bytes after the last newline
unfoldable pub rest_after : List ℕ → List ℕ → List ℕ
rest_after p [] = p
rest_after p (b ∷ bytes) = cond (eqb b newline) (rest_after [] bytes) (rest_after (p ++ (b ∷ [])) bytes)

-- the next state, and the bytes that are written
pub record Answer (Q : Type 0) : Type 0 where
  pub next : Q
  pub said : List ℕ

-- the same, and the bytes of a line that has not ended
pub record Fed (Q : Type 0) : Type 0 where
  pub next : Q
  pub part : List ℕ
  pub said : List ℕ

-- chunks one after another
abbrev pub whole : List (List ℕ) → List ℕ
whole [] = []
whole (c ∷ rest) = c ++ whole rest

module _ {Q : Type 0} (line_of : Q → List ℕ → Answer Q) where
  -- lines answered in turn, each from the state that the one before left
  unfoldable pub answers : Q → List (List ℕ) → Answer Q
  answers q [] = record { next = q; said = [] }
  answers q (l ∷ rest) =
      let a = line_of q l in
      let b = answers a.next rest in
      record { next = b.next; said = a.said ++ b.said }

  -- bytes fed after the part p of a line: the lines that end in them answered, and the part of a line that is left
  unfoldable pub feed : Q → List ℕ → List ℕ → Fed Q
  feed q p bytes =
      let a = answers q (lines_after p bytes) in
      record { next = a.next; part = rest_after p bytes; said = a.said }

  -- what a whole stream gives: its lines answered, and then what the bytes after the last newline give
  unfoldable pub output : (Q → List ℕ → List ℕ) → Q → List ℕ → List ℕ
  output ending q bytes =
      let f = feed q [] bytes in
      f.said ++ ending f.next f.part

-- ---- a chunk at a time, with a bounded part of a line

-- of a line that has not ended 256 bytes are kept
abbrev pub cut : List ℕ → List ℕ
cut p = take 256 p

-- what is kept of a line that has not ended is for the state to say: these bytes, or fewer
module _ {Q : Type 0} (line_of : Q → List ℕ → Answer Q) (kept : Q → List ℕ → List ℕ) where
  -- chunk after chunk, as a program goes: what each one gives is written before the next is read
  unfoldable pub chunkwise : Q → List ℕ → List (List ℕ) → Fed Q
  chunkwise q p [] = record { next = q; part = p; said = [] }
  chunkwise q p (c ∷ rest) =
      let f = feed line_of q p c in
      let g = chunkwise f.next (kept f.next f.part) rest in
      record { next = g.next; part = g.part; said = f.said ++ g.said }

  -- what a program writes in all
  unfoldable pub written : (Q → List ℕ → List ℕ) → Q → List (List ℕ) → List ℕ
  written ending q chunks =
      let f = chunkwise q [] chunks in
      f.said ++ ending f.next f.part

-- the number of bytes before the first newline
unfoldable pub before_newline : List ℕ → ℕ
before_newline [] = 0
before_newline (b ∷ bytes) = cond (eqb b newline) 0 (suc (before_newline bytes))

-- what keeping more bytes of a line leaves in its buffer
pub record Kept (line : List ℕ) (len : ℕ) (more : List ℕ) (after : List ℕ) (kept : ℕ) : Type 0 where
  pub bytes : take kept after ≡ cut (take len line ++ more)
  pub fits : kept ≤ 256

-- what answering a line leaves: the next state, and the answer in the buffer
pub record Answered {Q : Type 0} (a : Answer Q) (buffer : List ℕ) (at : ℕ) (next : Q) (after : List ℕ) (place : ℕ) : Type 0 where
  pub state : next ≡ a.next
  pub text : Wrote buffer at a.said (length a.said) after place

module _ {Q : Type 0} (line_of : Q → List ℕ → Answer Q) where
  -- a line answered, and the bytes after its newline fed
  abbrev pub onward : Q → List ℕ → List ℕ → Fed Q
  onward q line bytes =
      let a = line_of q line in
      let f = feed line_of a.next [] bytes in
      record { next = f.next; part = f.part; said = a.said ++ f.said }

  -- a text from the place i on, whose first line ends at the place j: that line, and what comes after the byte there; where j is the text's end, no line
  unfoldable pub fed_from : List ℕ → Q → ℕ → ℕ → Fed Q
  fed_from text q i j = cond (ltb j (length text)) (onward q (take (j - i) (drop i text)) (drop (j + 1) text)) (record { next = q; part = drop i text; said = [] })

-- what answering the lines of a text leaves: the state, the bytes of which a part is kept, and the answers in the buffer
pub record LinesAs {Q : Type 0} (kept : Q → List ℕ → List ℕ) (f : Fed Q) (next : Q) (rest : List ℕ) (buffer : List ℕ) (at : ℕ) (after : List ℕ) (place : ℕ) : Type 0 where
  pub state : next ≡ f.next
  pub part : cut rest ≡ kept f.next f.part
  pub text : Wrote buffer at f.said (length f.said) after place

-- what feeding a chunk leaves: the state, the part of a line in its buffer, what is to be written at the start of another, and the rest of that as it was before
pub record FedAs {Q : Type 0} (kept : Q → List ℕ → List ℕ) (f : Fed Q) (next : Q) (line : List ℕ) (len : ℕ) (before out : List ℕ) (sent : ℕ) : Type 0 where
  pub state : next ≡ f.next
  pub part : take len line ≡ kept f.next f.part
  pub part_fits : len ≤ 256
  pub said : take sent out ≡ f.said
  pub said_fits : sent ≤ length out
  pub rest : drop sent out ≡ drop sent before
