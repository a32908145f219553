-- Lines of text: words separated by one blank, ended by one line feed; numbers decimal, bytes as lower-case hex digits.
use Rattle.std.specs.Prelude.{ℕ, ◌+◌, List, [], ◌∷◌, ◌++◌, codes}
use Rattle.std.specs.List.{flat_map}
use Rattle.vfm_types.specs.declared.state.MigState.{MigState}
use Rattle.vfm_types.specs.declared.state.MigState.TheVariants.{Error, Stop, Running, StopCopy, Resuming, RunningP2p, PreCopy, PreCopyP2p}

-- a word and the words after it as a line
abbrev pub line : List ℕ → List (List ℕ) → List ℕ
line first words = first ++ flat_map (λ word. 32 ∷ word) words ++ 10 ∷ []

-- the texts of these, numbered from n on
abbrev pub numbered_text : {X : Type 0} → (ℕ → X → List ℕ) → ℕ → List X → List ℕ
numbered_text text n [] = []
numbered_text text n (x ∷ xs) = text n x ++ numbered_text text (n + 1) xs

-- a state by its name in linux/vfio.h
abbrev pub state_name : MigState → List ℕ
state_name Error = codes "ERROR"
state_name Stop = codes "STOP"
state_name Running = codes "RUNNING"
state_name StopCopy = codes "STOP_COPY"
state_name Resuming = codes "RESUMING"
state_name RunningP2p = codes "RUNNING_P2P"
state_name PreCopy = codes "PRE_COPY"
state_name PreCopyP2p = codes "PRE_COPY_P2P"
