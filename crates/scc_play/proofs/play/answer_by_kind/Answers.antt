use Rattle.scc_play.proofs.play.answer_by_kind.Goals as goal

pub returns-in-Map : goal.returns-in-Map
returns-in-Map g c = rw c.in-Map.is (rw c.as_slice.ensures.value at c.answer_map.ensures)

pub returns-in-Set : goal.returns-in-Set
returns-in-Set g c = rw c.in-Set.is (rw c.as_slice-in-Set.ensures.value at c.answer_set.ensures)

pub returns-in-Index : goal.returns-in-Index
returns-in-Index g c = rw c.in-Index.is (rw c.as_slice-in-Index.ensures.value at c.answer_index.ensures)

pub returns-in-Cache : goal.returns-in-Cache
returns-in-Cache g c = rw c.in-Cache.is (rw c.as_slice-in-Cache.ensures.value at c.answer_cache.ensures)
