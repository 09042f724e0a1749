use Rattle.std.proofs.Common.{◌∙◌, ap, arith}
use Rattle.scc_common.specs.Contents.{bucket_count, hash_in, settings_of}
use Rattle.scc_common.specs.Routing.{bucket_number}
use Rattle.scc_table.proofs.arrays.OneBucket.{routed-seen}
use Rattle.scc_table.proofs.arrays.CurrentParts.{count-seen, settings-seen}
use Rattle.scc_table.proofs.Table.bucket_at.Goals as goal

pub returns-clause-value : goal.returns-clause-value
returns-clause-value g c =
    let t = c.self.inside in
    let hk = hash_in g.H.Hashes.hash_of t.current in
    let hash = λ (e : g.row.E.Denot). hk (g.E.Keyed.key_of e) in
    let set = settings-seen hash t.current t.draining.waiting.items t.draining.array c.args.self.now c.self.view_is in
    let count = count-seen hash t.current t.draining.waiting.items t.draining.array c.args.self.now c.self.view_is c.self.invariant.arrays in
    c.bucket_at.ensures.value ∙ ap (λ s. bucket_number s.skipped (bucket_count t.current) c.args.hash) set ∙ ap (λ n. bucket_number (settings_of c.args.self.now).skipped n c.args.hash) count

pub returns-clause-within : goal.returns-clause-within
returns-clause-within g c =
    let t = c.self.inside in
    let hk = hash_in g.H.Hashes.hash_of t.current in
    let hash = λ (e : g.row.E.Denot). hk (g.E.Keyed.key_of e) in
    let count = count-seen hash t.current t.draining.waiting.items t.draining.array c.args.self.now c.self.view_is c.self.invariant.arrays in
    λ some. let l = c.bucket_at.ensures.within (omega arith) in omega arith

pub returns-clause-routed : goal.returns-clause-routed
returns-clause-routed g c = routed-seen g.H.Hashes.hash_of g.E.Keyed.key_of c.self.invariant c.self.view_is c.bucket_at.ensures.routed
