-- What was copied and read last, put to the test that a lost write fails.
use Rattle.std.proofs.Common.{◌≡◌, ℕ, zero, suc, ◌<◌, Bool, true, nat_eq, List, [], ◌∷◌, Option, Some, refl, ap, ◌∙◌, arith, eq-eqb}
use Rattle.std.specs.Cmp.Lexicographic.{pointwise}
use Rattle.std.proofs.lemmas.Bool.{and_from}
use Rattle.vfm_types.specs.declared.desc.Desc.{Desc}
use Rattle.vfm_types.specs.declared.entry.Entry.{Entry}
use Rattle.vfm_types.specs.Desc.{device_count, shape_at, block_count}
use Rattle.vfm_types.specs.Deliveries.{page_bytes, block_bytes, joint_machine}
use Rattle.vfm_types.specs.Phases.{is_last_begun}
use Rattle.vfm_types.specs.Blocks.{is_no_pass_open}
use Rattle.vfm_types.specs.Valid.{IsValid}
use Rattle.vfm_base.specs.Least.{all_below}
use Rattle.vfm_plain.specs.Legal.{IsLegal}
use Rattle.vfm_copying.specs.Copies.{last_copy, last_reading}
use Rattle.vfm_copying.specs.Lost.{are_taken, is_page_sent, is_block_sent, is_all_sent}
use Rattle.vfm_copying.proofs.LastPass.{copied_pages}
use Rattle.vfm_copying.proofs.LastBlocks.{read_blocks}

pub same_itself : (bytes : List ℕ) → pointwise nat_eq bytes bytes ≡ true
same_itself [] = refl
same_itself (byte ∷ bytes) = and_from (nat_eq byte byte) (pointwise nat_eq bytes bytes) (eq-eqb byte byte refl) (same_itself bytes)

taken_is : (o : Option (List ℕ)) (bytes : List ℕ) → o ≡ Some bytes → are_taken o bytes ≡ true
taken_is o bytes is = ap (λ (x : Option (List ℕ)). are_taken x bytes) is ∙ same_itself bytes

-- what each number below n passes, all do
pub all_from : (n : ℕ) (test : ℕ → Bool) → ((k : ℕ) → k < n → test k ≡ true) → all_below n test ≡ true
all_from zero test each = refl
all_from (suc n) test each = and_from (all_below n test) (test n) (all_from n test (λ k h. each k (omega arith))) (each n (omega arith))

pub all_sent : (D : Desc) (past : List Entry) → IsValid D → IsLegal D past → is_last_begun past ≡ true → is_no_pass_open D past ≡ true → is_all_sent D past ≡ true
all_sent D past valid legal last ended =
    and_from (all_below D.pages (λ p. is_page_sent D p past))
    (all_below (device_count D) (λ d. all_below (block_count (shape_at D d)) (λ b. is_block_sent D d b past)))
    (all_from D.pages (λ p. is_page_sent D p past)
    (λ p inside. taken_is (last_copy D p past) (page_bytes (joint_machine D past) p) (copied_pages D past p valid legal last ended inside)))
    (all_from (device_count D) (λ d. all_below (block_count (shape_at D d)) (λ b. is_block_sent D d b past))
    (λ d inside_d. all_from (block_count (shape_at D d)) (λ b. is_block_sent D d b past)
    (λ b inside_b. taken_is (last_reading D d b past) (block_bytes (joint_machine D past) d b) (read_blocks D past d b valid legal last ended inside_d inside_b))))
