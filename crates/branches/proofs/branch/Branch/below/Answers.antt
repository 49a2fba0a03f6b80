-- Each field is what the definition says.
use Rattle.std.proofs.Common.{◌≡◌, length, get_or, ap, ◌∙◌, arith, rules, subst, refl}
use Rattle.std.proofs.lemmas.List.{get_or-map}
use Rattle.small_counts.specs.Arrival.{renamed}
use Rattle.small_counts.specs.Matrix.{IsMerged}
use Rattle.small_counts.specs.Laws.Matrix.{few_merged}
use Rattle.branches.proofs.branch.Branch.below.Goals as goal

pub counts-requires : goal.counts-requires
counts-requires c =
    let q = c.requires.0 in
    let b = c.args.self.now in
    let k = c.args.at.now.k in
    let m = subst (λ x. IsMerged b.entries b.a x k c.merge-entries.result) c.from.ensures c.merge-entries.ensures in
    (omega arith, c.requires.1, q.few, few_merged b.entries c.merge-entries.result b.a c.args.c.name k (omega (arith, q.more, q.few)) q.few q.entries_few m)

pub returns : goal.returns
returns c =
    let b = c.args.self.now in
    let k = c.args.at.now.k in
    let eight : length b.names ≡ 8 = search rules in (
      record {
        next = refl;
        tails_are = c.links_with.ensures.tails;
        heads_are = c.links_with.ensures.heads;
        state_is = c.add_in-more.ensures;
        fixed_is = search rules;
        names_are = λ x l. ap (λ xs. get_or xs x 0) c.renamed.ensures ∙ get_or-map (renamed b.a c.args.c.name) b.names x 0 0 (omega arith);
        entries_are = λ l. subst (λ x. IsMerged b.entries b.a x k c.merge-entries.result) c.from.ensures c.merge-entries.ensures;
      },
      c.counts.ensures,
    )
