-- What the results of reading say of a reading. Assumes nothing.
use Rattle.std.specs.Prelude.{◌≡◌, ℕ, List, Ok, Err, Result}
use Rattle.std.specs.Borrow.{Bor}
use Rattle.structure.specs.Refusals.{number_of}
use Rattle.fields.specs.declared.fault.ReadError.{ReadError}
use Rattle.fields.specs.declared.fault.ReadError.TheVariants.{Fault, Memory}
use Rattle.fields.specs.Readings.{Reading, fault, read}

-- an error is the reading's fault; where memory was wanting nothing more is said
abbrev pub Stops : {A : Type 0} → ReadError → Reading A → Type 0
Stops (Fault f) g = g ≡ fault (number_of f.refusal) f.line
Stops (Memory _) g = Unit {0}

-- a result is what the reading gives, with what it holds read by f
abbrev pub Reads : {X A : Type 0} → (X → A) → Result X ReadError → Reading A → Type 0
Reads f (Ok x) g = g ≡ read (f x)
Reads f (Err e) g = Stops e g

-- what a value is beside the text after its line
abbrev pub with_rest : {X A : Type 0} → (X → A) → X × Bor (List ℕ) → A × List ℕ
with_rest f p = (f p.0, p.1.now)
