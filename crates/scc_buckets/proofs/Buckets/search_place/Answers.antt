use Rattle.std.proofs.Common.{rules}
use Rattle.scc_buckets.proofs.Bounds.{unlisted-none}
use Rattle.scc_buckets.proofs.Buckets.search_place.Goals as goal

pub returns-then-bucket_count-eq0 : goal.returns-then-bucket_count-eq0
returns-then-bucket_count-eq0 g c = unlisted-none _ c.args.self.now _ (search rules)
