use Rattle.btr_reader.proofs.Imports.{◌≤◌, ◌<◌, ◌++◌, ◌∷◌, [], ℕ, List, length, refl, sym, ◌∙◌, ap, subst, arith, option_map, nat_tests, ChunkAt, entry_size, chunks_within, array_chunks, IsBadArray}
use Rattle.btr_reader.proofs.Array.{chunk_more, no_chunk, no_more}
use Rattle.btr_reader.proofs.bootstrap.array_chunks.Goals as goal

pub returns-in_default-clause-err : goal.returns-in_default-clause-err
returns-in_default-clause-err c =
    let k = c.loop-rest.invariant in
    let some : 0 < length c.loop-rest.rest.now = grind (arith, nat_tests, c.is_empty.ensures, c.loop-rest-test.true) in
    subst (IsBadArray (array_chunks c.args.array.now)) (sym c.refused.ensures) (refl, no_chunk k.0 c.loop-rest.rest.now c.loop-rest.chunks.items (array_chunks c.args.array.now) some k.1 (sym c.front_chunk.ensures.value ∙ c.in_default.is) k.2)

pub loop-rest-preserved : goal.loop-rest-preserved
loop-rest-preserved c =
    let k = c.loop-rest.invariant in
    let rest : List ℕ = c.loop-rest.rest.now in
    let some : 0 < length rest = grind (arith, nat_tests, c.is_empty.ensures, c.loop-rest-test.true) in
    let size : 1 ≤ entry_size rest = omega arith in
    let more = chunk_more k.0 rest c.in-Some.c c.loop-rest.chunks.items (array_chunks c.args.array.now) some k.1 size (sym c.in-Some.is ∙ c.front_chunk.ensures.value) k.2 in (
      more.0,
      subst (λ (r : List ℕ). length r ≤ more.0) (sym c.behind_entry-rest.ensures) more.1,
      ap (λ (done : List ChunkAt). option_map (λ cs. done ++ cs) (chunks_within more.0 c.behind_entry-rest.result.now)) c.in_ok-push_chunk.ensures
          ∙ (ap (λ (r : List ℕ). option_map (λ cs. (c.loop-rest.chunks.items ++ c.in-Some.c ∷ []) ++ cs) (chunks_within more.0 r)) c.behind_entry-rest.ensures ∙ more.2),
    )

pub returns-clause-ok : goal.returns-clause-ok
returns-clause-ok c =
    let k = c.loop-rest.invariant in
    no_more k.0 c.loop-rest.rest.now c.loop-rest.chunks.items (array_chunks c.args.array.now) (grind (arith, nat_tests, c.is_empty.ensures, c.loop-rest-test.false)) k.2
