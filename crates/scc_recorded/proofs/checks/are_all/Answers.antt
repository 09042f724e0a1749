use Rattle.std.proofs.Common.{◌≡◌, ◌<◌, ℕ, false, map, length, take, get_or, arith, sym, ap, ◌∙◌}
use Rattle.std.proofs.lemmas.List.{length-map, length-take-le, take_more, get_or-take, get_or_read}
use Rattle.scc_history.proofs.Telling.{all_at}
use Rattle.scc_recorded.proofs.Seen.{seen_more, twice, number_at}
use Rattle.scc_recorded.proofs.checks.are_all.Goals as goal
use Rattle.scc_recorded.proofs.checks.are_all.Goals.{then-number-count-via-then-number-count, then-number-count-via-else-number-count+then-index}

pub loop-k-preserved : goal.loop-k-preserved
loop-k-preserved g c =
    let passes = c.args.passes.now in
    let k = c.loop-k.k in
    let numbers = map (λ p. p.log.number) passes in
    let long : length numbers ≡ length passes = simp length-map in
    let m = number_at (λ p. p.log.number) passes k 0 c.index-passes-k.result c.loop-k-test.true in
    let n = (get_or passes k c.index-passes-k.result).log.number in
    let within : n < length c.loop-k.seen.items = omega (arith, c.if-number-count.false, c.loop-k.invariant.long) in
    let new = sym (get_or_read c.loop-k.seen.items n c.index.result.now within c.index.ensures false) ∙ c.if-index.false in
    rw (take_more numbers k 0 (omega (arith, long, c.loop-k-test.true)), m) (seen_more c.args.count (take k numbers) c.loop-k.seen.items c.loop-k.invariant n c.if-number-count.false new)

pub returns-then-number-count : goal.returns-then-number-count
returns-then-number-count g c =
    let passes = c.args.passes.now in
    let k = c.loop-k.k in
    let numbers = map (λ p. p.log.number) passes in
    let long : length numbers ≡ length passes = simp length-map in
    let less : k < length numbers = omega (arith, long, c.loop-k-test.true) in
    let n = (get_or passes k c.index-passes-k.result).log.number in
    let m : (d : ℕ) → get_or numbers k d ≡ n = λ d. number_at (λ p. p.log.number) passes k d c.index-passes-k.result c.loop-k-test.true in
    let t : length (take k numbers) ≡ k = length-take-le k numbers (omega arith) in
    let same_start : (i d : ℕ) → i < length (take k numbers) → get_or numbers i d ≡ get_or (take k numbers) i d = λ i d l. sym (get_or-take k numbers i d (omega (arith, t, l))) in
    let next : (d : ℕ) → get_or numbers (length (take k numbers)) d ≡ n = λ d. ap (λ j. get_or numbers j d) t ∙ m d in (
      λ f. absurd (cc),
      λ all. elim c.then-number-count.branch [
        | then-number-count-via-then-number-count w ↦ let b = all_at (λ n. n < c.args.count) numbers k 0 all.1 less in absurd (omega (arith, b, m 0, w.if-number-count.true))
        | then-number-count-via-else-number-count+then-index w ↦
            let h = w.if-number-count.false in
            let within : n < length c.loop-k.seen.items = omega (arith, h, c.loop-k.invariant.long) in
            let old = sym (get_or_read c.loop-k.seen.items n w.index.result.now within w.index.ensures false) ∙ w.if-index.true in
            absurd (twice c.args.count (take k numbers) c.loop-k.seen.items c.loop-k.invariant n h old numbers (omega (arith, t, less)) same_start next all.2)
      ],
    )
