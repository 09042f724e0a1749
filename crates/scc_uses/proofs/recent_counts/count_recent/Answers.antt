use Rattle.std.proofs.Common.{ℕ, nat_eq, Some, Ok, ap, sym, subst, rules}
use Rattle.std.specs.Hash as fed
use Rattle.scc_common.specs.Contents.{key_hash}
use Rattle.scc_owned_cache.specs.Caches.{Cached}
use Rattle.scc_owned_cache.specs.CacheSteps.{ChangesLists, PutsNew, list_number}
use Rattle.scc_owned_cache.specs.ListSteps.{RefreshesAs}
use Rattle.scc_uses.specs.Counts.{one_more}
use Rattle.scc_uses.proofs.RecentCounting.{counted-again, counted-first}
use Rattle.scc_uses.proofs.recent_counts.count_recent.Goals as goal

pub returns-in-Ok-clause-again : goal.returns-in-Ok-clause-again
returns-in-Ok-clause-again g c = λ p there.
    let a = c.args.counts.now in
    let hash = key_hash g.H.BuildHasher g.H.Hasher.Hasher fed.u64 a.contents in
    let h = counted-again a c.args.word _ _ (λ m n says. search rules) c.in-Ok.evicted c.in-Ok._entry c.entry_sync.result c.and_modify.result c.entry_sync.ensures.entry c.and_modify.ensures.modifies c.in-Ok.ensures.entry p there in
    let last = c.counts-1.given.1 (search rules) in
    (ap Ok h.0, subst (λ (d : Cached (ℕ × ℕ) g.row.H.Denot). ChangesLists (RefreshesAs (list_number hash a.contents) nat_eq c.args.word p (p.0, one_more (Some p))) a d) (sym last) h.1)

pub returns-in-Ok-clause-first : goal.returns-in-Ok-clause-first
returns-in-Ok-clause-first g c = λ none.
    let a = c.args.counts.now in
    let hash = key_hash g.H.BuildHasher g.H.Hasher.Hasher fed.u64 a.contents in
    let h = counted-first a c.args.word _ _ (λ m n says. search rules) c.in-Ok.evicted c.in-Ok._entry c.entry_sync.result c.and_modify.result c.entry_sync.ensures.entry c.and_modify.ensures.modifies c.in-Ok.ensures.entry none in
    let last = c.counts-1.given.1 (search rules) in
    subst (λ (d : Cached (ℕ × ℕ) g.row.H.Denot). PutsNew hash nat_eq a (c.args.word, 1) c.in-Ok.evicted d) (sym last) h
