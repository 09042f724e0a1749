use Rattle.std.proofs.Common.{◌≡◌, length, ap, ◌∙◌, rules}
use Rattle.scc_common.specs.Contents.{hash_in}
use Rattle.scc_common.specs.Routing.{bucket_number}
use Rattle.scc_buckets.proofs.Views.{count-view, settings-view}
use Rattle.scc_buckets.proofs.Buckets.bucket_index.Goals as goal

pub returns : goal.returns
returns g c =
    let len : c.len.result ≡ length c.self.inside.buckets = search rules in
    rw (count-view c.self.inside.buckets _ c.args.self.now c.self.view_is, settings-view c.self.inside.buckets _ c.args.self.now c.self.view_is, hash_in)
    (c.bucket.ensures.value ∙ ap (λ n. bucket_number c.self.inside.router.skipped n c.hash.result) len ∙ ap (bucket_number c.self.inside.router.skipped (length c.self.inside.buckets)) c.hash.ensures)
