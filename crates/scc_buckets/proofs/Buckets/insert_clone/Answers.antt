use Rattle.std.proofs.Common.{◌≡◌, [], ◌∷◌, ap, ◌∙◌, length, rules, arith}
use Rattle.scc_common.specs.Routing.{bucket_number}
use Rattle.scc_buckets.proofs.Views.{count-view, settings-view}
use Rattle.scc_buckets.proofs.Buckets.insert_clone.Goals as goal

pub insert_in-requires : goal.insert_in-requires
insert_in-requires g c =
    let bs = c.self.inside.buckets in
    let len : c.len-count.result ≡ length bs = search rules in
    let count = count-view bs _ c.args.self.now c.self.view_is in
    record {
      within = rw count (omega (arith, len, c.bucket-bucket.ensures.within (omega (arith, c.if-count-eq0.false))));
      routed = rw (settings-view bs _ c.args.self.now c.self.view_is, count) (c.bucket-bucket.ensures.value ∙ ap (λ n. bucket_number c.self.inside.router.skipped n c.hash-hash.result) len);
      hashed = search rules;
      absent = search rules;
    }

pub returns-in-Ok-insert_in : goal.returns-in-Ok-insert_in
returns-in-Ok-insert_in g c = record {
  copies = c.in-Ok.copy ∷ [];
  cloned = (c.in-Ok.ensures.cases, tt);
  same = c.in-Ok-insert_in.ensures.ok.holds.same;
  buckets = c.insert_in.ensures.buckets;
  settings = c.in-Ok-insert_in.ensures.ok.holds.settings;
  noted = c.insert_in.ensures.refused;
}
