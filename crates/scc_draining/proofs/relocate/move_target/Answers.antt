use Rattle.std.proofs.Common.{◌^◌, ◌<◌, ◌∙◌, sym, arith, rules}
use Rattle.std.proofs.lemmas.Result.{on_ok_weaker, on_err_weaker}
use Rattle.scc_common.specs.Contents.{bucket_count, hash_in, settings_of}
use Rattle.scc_buckets.specs.Tables.{overflow_in}
use Rattle.scc_draining.specs.Moves.{IsDrainable}
use Rattle.scc_draining.proofs.Counted.{short-counted}
use Rattle.scc_draining.proofs.FromBuckets.{within-sources, few-each, most-entry_count}
use Rattle.scc_draining.proofs.Joined.{whole-joined}
use Rattle.scc_draining.proofs.relocate.move_target.Goals as goal

pub count_coming-coming-requires-clause-drainable : goal.count_coming-coming-requires-clause-drainable
count_coming-coming-requires-clause-drainable g c =
    let cur = c.args.current.now in
    let olds = c.args.old.now in
    let hash = λ (e : g.row.E.Denot). hash_in g.H.Hashes.hash_of cur (g.E.Keyed.key_of e) in
    let first = c.sources-first.result.0 in
    let end = c.sources-first.result.1 in
    let last = rw c.len-before.ensures.count at c.sources-first.ensures.within in
    let only = rw (c.len-before.ensures.count, c.bucket_count-count.ensures.count) at c.sources-first.ensures.only in
    let all = rw (c.len-before.ensures.count, c.bucket_count-count.ensures.count) at c.sources-first.ensures.joined in
    let two = rw (c.len-before.ensures.count, c.bucket_count-count.ensures.count) at c.sources-first.ensures.doubled in
    let whole = rw (c.len-before.ensures.count, c.bucket_count-count.ensures.count) at c.is_whole-whole.ensures in
    let drainable : IsDrainable hash (settings_of cur).skipped (bucket_count cur) c.args.target first end c.is_whole-whole.result olds = record {
      sources = within-sources hash (settings_of cur).skipped (bucket_count cur) c.args.target first end olds c.requires.own c.sources-first.ensures.order last only;
      joined = whole-joined hash (settings_of cur).skipped (bucket_count cur) c.args.target first end olds c.args.waiting.now c.is_whole-whole.result c.requires.own last all two c.requires.not_waiting whole;
      few = few-each olds c.args.aside c.requires.spilled (let f = c.requires.aside in omega arith);
      own = c.requires.own;
    } in
    rw (c.router.ensures, c.bucket_count-count.ensures.count) drainable

pub move_in-requires-clause-drainable : goal.move_in-requires-clause-drainable
move_in-requires-clause-drainable g c =
    let cur = c.args.current.now in
    let olds = c.args.old.now in
    let hash = λ (e : g.row.E.Denot). hash_in g.H.Hashes.hash_of cur (g.E.Keyed.key_of e) in
    let first = c.sources-first.result.0 in
    let end = c.sources-first.result.1 in
    let last = rw c.len-before.ensures.count at c.sources-first.ensures.within in
    let only = rw (c.len-before.ensures.count, c.bucket_count-count.ensures.count) at c.sources-first.ensures.only in
    let all = rw (c.len-before.ensures.count, c.bucket_count-count.ensures.count) at c.sources-first.ensures.joined in
    let two = rw (c.len-before.ensures.count, c.bucket_count-count.ensures.count) at c.sources-first.ensures.doubled in
    let whole = rw (c.len-before.ensures.count, c.bucket_count-count.ensures.count) at c.is_whole-whole.ensures in
    let drainable : IsDrainable hash (settings_of cur).skipped (bucket_count cur) c.args.target first end c.is_whole-whole.result olds = record {
      sources = within-sources hash (settings_of cur).skipped (bucket_count cur) c.args.target first end olds c.requires.own c.sources-first.ensures.order last only;
      joined = whole-joined hash (settings_of cur).skipped (bucket_count cur) c.args.target first end olds c.args.waiting.now c.is_whole-whole.result c.requires.own last all two c.requires.not_waiting whole;
      few = few-each olds c.args.aside c.requires.spilled (let f = c.requires.aside in omega arith);
      own = c.requires.own;
    } in
    drainable

pub sources-first-requires-clause-some : goal.sources-first-requires-clause-some
sources-first-requires-clause-some g c = let z = c.requires.sized in omega (arith, z.least, c.len-before.ensures.count)

pub sources-first-requires-clause-most : goal.sources-first-requires-clause-most
sources-first-requires-clause-most g c = let z = c.requires.sized in omega (arith, z.most, c.len-before.ensures.count)

pub sources-first-requires-clause-target : goal.sources-first-requires-clause-target
sources-first-requires-clause-target g c = omega (arith, c.requires.target, c.bucket_count-count.ensures.count)

pub sources-first-requires-clause-multiples : goal.sources-first-requires-clause-multiples
sources-first-requires-clause-multiples g c = rw (c.len-before.ensures.count, c.bucket_count-count.ensures.count) c.requires.multiples

pub count_coming-coming-requires-clause-most : goal.count_coming-coming-requires-clause-most
count_coming-coming-requires-clause-most g c =
    let hash = λ (e : g.row.E.Denot). hash_in g.H.Hashes.hash_of c.args.current.now (g.E.Keyed.key_of e) in
    let low : overflow_in c.args.old.now < 2 ^ 62 = omega (arith, c.requires.spilled, c.requires.aside) in
    let m = most-entry_count hash (settings_of c.args.current.now).skipped c.args.old.now c.requires.sized c.requires.own low in
    omega arith

pub is_whole-whole-requires-clause-flags : goal.is_whole-whole-requires-clause-flags
is_whole-whole-requires-clause-flags g c = c.requires.flags ∙ sym c.bucket_count-count.ensures.count

pub returns : goal.returns
returns g c =
    let exact = rw (c.router.ensures, c.bucket_count-count.ensures.count) at c.count_coming-coming.ensures.exact in
    record {
      ok = (search rules);
      few = (search rules);
      short = (on_ok_weaker c.move_in.result (λ h few. h (short-counted c.count_coming-coming.result _ exact few)) c.move_in.ensures.short);
      err = (search rules);
      stays = (search rules);
      refused = (on_err_weaker c.move_in.result (λ l. let same = exact l in omega arith) c.move_in.ensures.refused);
      routed = (search rules);
    }
