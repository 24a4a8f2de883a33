use Rattle.std.proofs.Common.{◌≡◌, ◌+◌, ◌-◌, ◌<◌, length, get_or, subst, rules, arith, ℕ}
use Rattle.std.proofs.Math.Dec.{leb}
use Rattle.std.proofs.lemmas.List.Sorted.{IsPartitionPoint-from_clause, IsPartitionedBy-leb}
use Rattle.std.proofs.lemmas.Option.{slice_get-get_or}
use Rattle.change_set.specs.declared.run.Run.{Run}
use Rattle.change_set.specs.Cells.{place_or_end}
use Rattle.change_set.proofs.SeenLemmas.{IsLimit, limit_of}
use Rattle.change_set.proofs.ContentLemmas.{no_run}
use Rattle.change_set.proofs.SearchLemmas.{firsts_sorted, behind_limit, last_within}
use Rattle.change_set.proofs.search.last_from.Goals as goal

pub returns-then-behind-eq0 : goal.returns-then-behind-eq0
returns-then-behind-eq0 c =
    let runs = c.args.runs.now in
    let a = c.args.area.now in
    let point = IsPartitionPoint-from_clause (λ (run : Run). leb (place_or_end a run.first) c.args.place) runs c.partition_point-behind.result c.partition_point-behind.ensures.partitioned
    (IsPartitionedBy-leb (λ (run : Run). place_or_end a run.first) runs c.args.place (firsts_sorted a runs c.requires.each c.requires.rising)) (λ b r f' called. search rules) in
    let limit = limit_of (λ (run : Run). place_or_end a run.first) runs c.args.place c.partition_point-behind.result point in
    behind_limit a runs c.args.place 0 c.requires.each (subst (λ (n : ℕ). IsLimit (λ (run : Run). place_or_end a run.first) runs c.args.place n) c.if-behind-eq0.true limit)

pub returns : goal.returns
returns c =
    let runs = c.args.runs.now in
    let a = c.args.area.now in
    let k = c.partition_point-behind.result - 1 in
    let point = IsPartitionPoint-from_clause (λ (run : Run). leb (place_or_end a run.first) c.args.place) runs c.partition_point-behind.result c.partition_point-behind.ensures.partitioned
    (IsPartitionedBy-leb (λ (run : Run). place_or_end a run.first) runs c.args.place (firsts_sorted a runs c.requires.each c.requires.rising)) (λ b r f' called. search rules) in
    let limit = limit_of (λ (run : Run). place_or_end a run.first) runs c.args.place c.partition_point-behind.result point in
    let some = c.if-behind-eq0.false in
    let more : c.partition_point-behind.result ≡ k + 1 = omega (arith, some) in
    let bound = c.partition_point-behind.ensures.bound in
    let below : k < length runs = omega (arith, some, bound) in
    last_within a runs c.args.place k (get_or runs k no_run) c.requires.each
    (subst (λ (n : ℕ). IsLimit (λ (run : Run). place_or_end a run.first) runs c.args.place n) more limit) (slice_get-get_or runs k no_run below)
