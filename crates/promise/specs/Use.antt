-- A study's whole use: its calls from the open on, each with what it was given and what it answered; and how far its
-- search has come. Assumes nothing.
use Rattle.std.specs.Prelude.{◌≡◌, ℕ, ◌+◌, ◌-◌, ◌<◌, ◌≤◌, Bool, true, false, ◌&&◌, ◌||◌, List, length, nat_le, nat_lt, slice_index}
use Rattle.structure.specs.Refusals.{Answer}
use Rattle.structure.specs.Shape.{Shape, vector_count, vector_at}
use Rattle.structure.specs.Minimal.{path_entry, cut_entry, paths_of, cuts_of}
use Rattle.promise.specs.Figures.{Rows}

-- ## The calls

-- how a step ended
pub data Word : Type 0 where
  finished : Word
  full : Word
  still_open : Word

-- which list an entry is shown from
pub data Side : Type 0 where
  path_list : Side
  cut_list : Side

-- the two figures of a level, and how many entries of each list cover it
pub record Figures : Type 0 where
  pub low : ℕ
  pub high : ℕ
  pub paths : ℕ
  pub cuts : ℕ

-- what a call that changes nothing asked for, and its answer: the figures of a level, or an entry of a list, whose
-- vector goes into the caller's row
pub data Query : Type 0 where
  figures : (level : ℕ) → Answer Figures → Query
  show : Side → (entry : ℕ) → (row : List ℕ) → Answer (ℕ × ℕ) → (row-after : List ℕ) → Query

-- each call after the use before it
pub data Use : Type 0 where
  opened : Shape → (tags : List ℕ) → Use
  entered : Use → (component : ℕ) → Rows → Answer (Unit {0}) → Use
  carried : Use → (component : ℕ) → (part : Use) → Answer (Unit {0}) → Use
  stepped : Use → (budget : ℕ) → (number : ℕ) → Word → Use
  asked : Use → Query → Use

-- the structure that the study was opened over
abbrev pub shape_of : Use → Shape
shape_of (opened s tags) = s
shape_of (entered u i r a) = shape_of u
shape_of (carried u i m a) = shape_of u
shape_of (stepped u b k w) = shape_of u
shape_of (asked u q) = shape_of u

-- the tags that name its components' diaries, and the tag of component i, counted from 1
abbrev pub tags_of : Use → List ℕ
tags_of (opened s tags) = tags
tags_of (entered u i r a) = tags_of u
tags_of (carried u i m a) = tags_of u
tags_of (stepped u b k w) = tags_of u
tags_of (asked u q) = tags_of u

abbrev pub tag_at : Use → ℕ → ℕ
tag_at u i = slice_index (tags_of u) (i - 1)

-- ## The search

-- the vector numbered k needs an entry in a list that holds 256
abbrev pub blocked : Shape → ℕ → Bool
blocked s k =
    (nat_lt 0 (length (path_entry s (vector_at s k))) && nat_le 256 (length (paths_of s k)))
    || (nat_lt 0 (length (cut_entry s (vector_at s k))) && nat_le 256 (length (cuts_of s k)))

-- why a step that began after k vectors and examined number of them stopped there
abbrev pub Stops : Shape → ℕ → ℕ → ℕ → Word → Type 0
Stops s k budget number finished = k + number ≡ vector_count s.tops
Stops s k budget number full = (number < budget) × (k + number < vector_count s.tops) × (blocked s (k + number) ≡ true)
Stops s k budget number still_open = (number ≡ budget) × (k + number < vector_count s.tops)

-- what step does with a budget after k vectors: it examines number further ones and answers that and the word
pub record StepRule (s : Shape) (k budget number : ℕ) (word : Word) : Type 0 where
  pub within_budget : number ≤ budget
  pub within_vectors : k + number ≤ vector_count s.tops
  pub none_blocked : (i : ℕ) → i < number → blocked s (k + i) ≡ false
  pub stops : Stops s k budget number word

-- how many vectors a use has examined
abbrev pub examined : Use → ℕ
examined (opened s tags) = 0
examined (entered u i r a) = examined u
examined (carried u i m a) = examined u
examined (stepped u b k w) = examined u + k
examined (asked u q) = examined u

-- the word that ends a search
abbrev pub says_finished : Word → Bool
says_finished finished = true
says_finished full = false
says_finished still_open = false

-- a step has answered finished
abbrev pub is_finished : Use → Bool
is_finished (opened s tags) = false
is_finished (entered u i r a) = is_finished u
is_finished (carried u i m a) = is_finished u
is_finished (stepped u b k w) = says_finished w || is_finished u
is_finished (asked u q) = is_finished u
