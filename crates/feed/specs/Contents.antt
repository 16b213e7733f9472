-- What a feed holds: its shape and its tags, and those of a feed that is made. Assumes nothing.
use Rattle.std.specs.Prelude.{ℕ, List, if◌then◌else◌}
use Rattle.structure.specs.Shape.{Shape}
use Rattle.structure.specs.Refusals.{accepted}
use Rattle.feed.specs.declared.feed.Feed.{Feed}
use Rattle.feed.specs.Few.{held_in}
use Rattle.feed.specs.Feed.{feed_shape, feed_answer}
use Rattle.feed.specs.Binary.{binary_shape, binary_tags}

-- the fixed value from which the feed answers
abbrev pub shape_of : Feed → Shape
shape_of f = feed_shape (held_in f.tops) (held_in f.weights) (held_in f.thresholds)

abbrev pub tags_of : Feed → List ℕ
tags_of f = held_in f.tags

-- the shape and the tags that a feed is made with: those asked for where the check accepts them, else the built-in ones
abbrev pub made_shape : List ℕ → List ℕ → List ℕ → List ℕ → Shape
made_shape tops tags weights thresholds = (if accepted (feed_answer tops tags weights thresholds) then feed_shape tops weights thresholds else binary_shape)

abbrev pub made_tags : List ℕ → List ℕ → List ℕ → List ℕ → List ℕ
made_tags tops tags weights thresholds = (if accepted (feed_answer tops tags weights thresholds) then tags else binary_tags)
