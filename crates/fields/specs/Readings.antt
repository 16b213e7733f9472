-- What reading a text comes to: what was read, or a fault with its number and line. Assumes nothing.
use Rattle.std.specs.Prelude.{ℕ, Bool, List, Some, None, Option}
use Rattle.structure.specs.Refusals.{Answer, refused, given, first_refusal}
use Rattle.fields.specs.Lines.{line_with}

pub data Reading (A : Type 0) : Type 0 where
  fault : (number line : ℕ) → Reading A
  read : A → Reading A

-- an answer on a line
abbrev pub at_line : {A : Type 0} → ℕ → Answer A → Reading A
at_line line (refused number) = fault number line
at_line line (given a) = read a

-- the first fault, or the second reading, which goes on from what the first has read
abbrev pub and_then : {A B : Type 0} → Reading A → (A → Reading B) → Reading B
and_then (fault number line) go = fault number line
and_then (read a) go = go a

-- what is there, or the refusal with this number
abbrev pub or_refuse : {A : Type 0} → ℕ → Option A → Answer A
or_refuse number None = refused number
or_refuse number (Some a) = given a

-- one line: 40 where it is absent or has another key, 41 where its value is malformed, then its own tests; and the text
-- after it
abbrev pub line_reading : {A : Type 0} → ℕ → List ℕ → (List ℕ → Option A) → (A → List (Bool × ℕ)) → List ℕ → Reading (A × List ℕ)
line_reading line key parse tests text =
    and_then (at_line line (or_refuse 40 (line_with key text))) (λ cut.
    and_then (at_line line (or_refuse 41 (parse cut.0))) (λ a.
    at_line line (first_refusal (tests a) (a, cut.1))))
