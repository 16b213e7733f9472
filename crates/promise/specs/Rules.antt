-- The uses in which every call answered what its rule fixes, and what a study holds after a use. Assumes nothing.
use Rattle.std.specs.Prelude.{◌≡◌, length}
use Rattle.structure.specs.Shape.{Lawful}
use Rattle.promise.specs.Use.{Use, opened, entered, carried, stepped, asked, shape_of, StepRule, examined}
use Rattle.promise.specs.Held.{Held}
use Rattle.promise.specs.Calls.{Opens, enter_answer, Enters, carry_answer, Carries, Steps, Answered}
use Rattle.promise.specs.InForce.{left_by, carried_rows}

-- every structure of the use, the modules' too, keeps the rules and has a tag for each component, and every call answered
-- what its rule fixes
abbrev pub Ruled : Use → Type 0
Ruled (opened s tags) = Lawful s × (length tags ≡ length s.tops)
Ruled (entered u i r a) = Ruled u × (a ≡ enter_answer (shape_of u).tops i r)
Ruled (carried u i m a) = Ruled u × Ruled m × (a ≡ carry_answer (shape_of u).tops i (shape_of m).best (carried_rows m))
Ruled (stepped u b k w) = Ruled u × StepRule (shape_of u) (examined u) b k w
Ruled (asked u q) = Ruled u × Answered (left_by u) q

-- h is what a study holds after it was opened and these calls, with these answers, have been its whole use
abbrev pub Lived : Use → Held → Type 0
Lived (opened s tags) h = Lawful s × (length tags ≡ length s.tops) × Opens s h
Lived (entered u i r a) h' = (h : Held) × Lived u h × Enters h i r a h'
Lived (carried u i m a) h' = (h : Held) × (p : Held) × Lived u h × Lived m p × Carries h i p a h'
Lived (stepped u b k w) h' = (h : Held) × Lived u h × Steps (shape_of u) h b k w h'
Lived (asked u q) h = Lived u h × Answered h q
