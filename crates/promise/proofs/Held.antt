-- Two studies hold the same if they agree in each part. Assumes nothing.
use Rattle.std.proofs.Common.{◌≡◌}
use Rattle.promise.specs.Held.{Held}

pub same_held : (h k : Held) → h.tops ≡ k.tops → h.best ≡ k.best → h.vectors ≡ k.vectors → h.rows ≡ k.rows → h.examined ≡ k.examined →
    h.finished ≡ k.finished → h.paths ≡ k.paths → h.cuts ≡ k.cuts → h ≡ k
same_held h k tops best vectors rows examined finished paths cuts = λ i. record {
  tops = tops i;
  best = best i;
  vectors = vectors i;
  rows = rows i;
  examined = examined i;
  finished = finished i;
  paths = paths i;
  cuts = cuts i;
}
