-- The numbers of the refusals, and what a call that can refuse answers. Assumes nothing.
use Rattle.std.specs.Prelude.{ℕ, Bool, true, false, if◌then◌else◌, List, [], ◌∷◌, Ok, Err, Result}
use Rattle.structure.specs.declared.refusal.Refusal.{Refusal}
use Rattle.structure.specs.declared.refusal.Refusal.TheVariants.{Components, Lengths, Tops, Best, Vectors, TableLength, Values, Ends, Falls, Component, RowLength, OverWhole, RowOrder, Excess, Level, Record, Room, TextLength, Line, Value, Trailing}

abbrev pub number_of : Refusal → ℕ
number_of Components = 10
number_of Lengths = 11
number_of Tops = 12
number_of Best = 13
number_of Vectors = 14
number_of TableLength = 15
number_of Values = 16
number_of Ends = 17
number_of Falls = 18
number_of Component = 20
number_of RowLength = 21
number_of OverWhole = 22
number_of RowOrder = 23
number_of Excess = 24
number_of Level = 30
number_of Record = 31
number_of Room = 32
number_of TextLength = 39
number_of Line = 40
number_of Value = 41
number_of Trailing = 42

-- what a call that can refuse answers: the refusal's number, or what it was asked for
pub data Answer (A : Type 0) : Type 0 where
  refused : ℕ → Answer A
  given : A → Answer A

-- the call did what it was asked for
abbrev pub accepted : {A : Type 0} → Answer A → Bool
accepted (refused _) = false
accepted (given _) = true

-- the number of the first condition that holds, or what was asked for where none does
abbrev pub first_refusal : {A : Type 0} → List (Bool × ℕ) → A → Answer A
first_refusal [] a = given a
first_refusal (c ∷ cs) a = (if c.0 then refused c.1 else first_refusal cs a)

-- the answer that a result stands for, with what it holds read by f
abbrev pub answer_by : {A B : Type 0} → (A → B) → Result A Refusal → Answer B
answer_by f (Ok a) = given (f a)
answer_by f (Err e) = refused (number_of e)

-- of a call that gives nothing back: the answer that a result stands for, and the one that the conditions fix
abbrev pub verdict : Result (Unit {0}) Refusal → Answer (Unit {0})
verdict = answer_by (λ u. u)

abbrev pub judged : List (Bool × ℕ) → Answer (Unit {0})
judged conditions = first_refusal conditions tt
