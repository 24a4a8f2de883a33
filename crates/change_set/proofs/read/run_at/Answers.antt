use Rattle.std.proofs.Common.{◌≡◌, ◌-◌, get_or, subst, refl, sym, rules}
use Rattle.std.proofs.Math.Dec.{leb}
use Rattle.std.proofs.lemmas.List.Sorted.{IsPartitionPoint-from_clause, IsPartitionedBy-leb}
use Rattle.change_set.specs.declared.run.Run.{Run}
use Rattle.change_set.specs.ContentRun.{ContentRun, looked_up, all_looked_up}
use Rattle.change_set.specs.Changes.{changes_of}
use Rattle.change_set.specs.Runs.{IsRunAt}
use Rattle.change_set.proofs.SeenLemmas.{limit_of, starts_by, found_by}
use Rattle.change_set.proofs.ContentLemmas.{no_run, numbered_at}
use Rattle.change_set.proofs.read.run_at.Goals as goal

pub overflow_sub-run : goal.overflow_sub-run
overflow_sub-run c =
    let view = looked_up c.args.contents.now in
    let runs = c.args.runs.now in
    let point = IsPartitionPoint-from_clause (λ (run : Run). leb run.start c.args.i) runs c.partition_point-behind.result c.partition_point-behind.ensures.partitioned
    (IsPartitionedBy-leb (λ (run : Run). run.start) runs c.args.i (starts_by view (λ (run : Run). run.start) (λ run. refl) c.args.area.now runs c.requires.each)) (λ a r f' called. search rules) in
    let found = found_by view (λ (run : Run). run.start) (λ run. refl) c.args.area.now runs c.args.i c.partition_point-behind.result no_run c.requires.each c.requires.within
    (limit_of (λ (run : Run). run.start) runs c.args.i c.partition_point-behind.result point) c.partition_point-behind.ensures.bound in
    found.some

pub content_of-requires : goal.content_of-requires
content_of-requires c =
    let view = looked_up c.args.contents.now in
    let runs = c.args.runs.now in
    let point = IsPartitionPoint-from_clause (λ (run : Run). leb run.start c.args.i) runs c.partition_point-behind.result c.partition_point-behind.ensures.partitioned
    (IsPartitionedBy-leb (λ (run : Run). run.start) runs c.args.i (starts_by view (λ (run : Run). run.start) (λ run. refl) c.args.area.now runs c.requires.each)) (λ a r f' called. search rules) in
    let found = found_by view (λ (run : Run). run.start) (λ run. refl) c.args.area.now runs c.args.i c.partition_point-behind.result no_run c.requires.each c.requires.within
    (limit_of (λ (run : Run). run.start) runs c.args.i c.partition_point-behind.result point) c.partition_point-behind.ensures.bound in
    (numbered_at c.args.contents.now runs (c.partition_point-behind.result - 1) (get_or runs (c.partition_point-behind.result - 1) no_run) c.requires.numbered found.there).before

pub content_of-requires-2 : goal.content_of-requires-2
content_of-requires-2 c =
    let view = looked_up c.args.contents.now in
    let runs = c.args.runs.now in
    let point = IsPartitionPoint-from_clause (λ (run : Run). leb run.start c.args.i) runs c.partition_point-behind.result c.partition_point-behind.ensures.partitioned
    (IsPartitionedBy-leb (λ (run : Run). run.start) runs c.args.i (starts_by view (λ (run : Run). run.start) (λ run. refl) c.args.area.now runs c.requires.each)) (λ a r f' called. search rules) in
    let found = found_by view (λ (run : Run). run.start) (λ run. refl) c.args.area.now runs c.args.i c.partition_point-behind.result no_run c.requires.each c.requires.within
    (limit_of (λ (run : Run). run.start) runs c.args.i c.partition_point-behind.result point) c.partition_point-behind.ensures.bound in
    (numbered_at c.args.contents.now runs (c.partition_point-behind.result - 1) (get_or runs (c.partition_point-behind.result - 1) no_run) c.requires.numbered found.there).after

pub returns : goal.returns
returns c =
    let view = looked_up c.args.contents.now in
    let runs = c.args.runs.now in
    let point = IsPartitionPoint-from_clause (λ (run : Run). leb run.start c.args.i) runs c.partition_point-behind.result c.partition_point-behind.ensures.partitioned
    (IsPartitionedBy-leb (λ (run : Run). run.start) runs c.args.i (starts_by view (λ (run : Run). run.start) (λ run. refl) c.args.area.now runs c.requires.each)) (λ a r f' called. search rules) in
    let found = found_by view (λ (run : Run). run.start) (λ run. refl) c.args.area.now runs c.args.i c.partition_point-behind.result no_run c.requires.each c.requires.within
    (limit_of (λ (run : Run). run.start) runs c.args.i c.partition_point-behind.result point) c.partition_point-behind.ensures.bound in
    let run = get_or runs (c.partition_point-behind.result - 1) no_run in
    let before = sym c.content_of.ensures in
    let after = sym c.content_of-2.ensures in
    let shown : ContentRun = record { first = run.first; start = run.start; length = run.length; before = c.content_of.result.now; after = c.content_of-2.result.now } in
    let same : view run ≡ shown = λ t. record { first = run.first; start = run.start; length = run.length; before = before t; after = after t } in
    subst (λ (r : ContentRun). IsRunAt c.args.area.now (changes_of c.args.area.now (all_looked_up c.args.contents.now runs)) c.args.i r) same found.is
