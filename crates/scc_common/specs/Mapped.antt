-- Contents whose entries are seen through a function.
use Rattle.std.specs.Prelude.{map}
use Rattle.scc_common.specs.Contents.{Contents}

module _ {E F S : Type 0} where
  -- the contents with f of each entry in its place
  unfoldable pub mapped : (E → F) → Contents E S → Contents F S
  mapped f c = record { lists = map (λ l. map f l) c.lists; settings = c.settings; refused = c.refused; spilled = c.spilled; waiting = c.waiting; owed = c.owed }
