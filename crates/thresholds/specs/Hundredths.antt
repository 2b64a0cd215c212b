-- The settings of the older knob: "Setting n, 10 to 100, is the binary64 number nearest 10^((3n-400)/100)". "Old setting n is new setting
-- 2n, and both tables agree there." Definitions only.
use Rattle.std.specs.Prelude.{◌≡◌, List, [], ◌∷◌, ℕ, ◌-◌, ◌*◌, ◌≤◌, get_or}
use Rattle.thresholds.specs.Nearest.{Scale, Nearest, TableNearest}
use Rattle.thresholds.specs.Thresholds.{half_hundredths, threshold}

-- "10^((3n-400)/100)"
abbrev pub hundredths : Scale
hundredths = record { slope = 3; offset = 400; root = 100 }

abbrev pub first_old_setting : ℕ
first_old_setting = 10

abbrev pub last_old_setting : ℕ
last_old_setting = 100

-- the bit patterns of old settings 10 to 100, by rising setting
unfoldable pub old_thresholds : List ℕ
old_thresholds =
    0x3f2a26fd472780c4 ∷ 0x3f2c05cf736e2e66 ∷ 0x3f2e06e054620036 ∷ 0x3f301651738f636b ∷ 0x3f313cdb80202756 ∷
    0x3f3278764071eff0 ∷ 0x3f33caa36330bf0e ∷ 0x3f3535002c77fbae ∷ 0x3f36b9476ed9da41 ∷ 0x3f385953a885509c ∷
    0x3f3a1721471fe40b ∷ 0x3f3bf4d11517ebd0 ∷ 0x3f3df4aad3669018 ∷ 0x3f400c9001778d91 ∷ 0x3f4132677071b10f ∷
    0x3f426d42cce9b24c ∷ 0x3f43bea2dba887fc ∷ 0x3f452823e62c5547 ∷ 0x3f46ab7fb27d8f20 ∷ 0x3f484a8f9f0cc5f5 ∷
    0x3f4a074ee52cd11b ∷ 0x3f4be3dd04ec489f ∷ 0x3f4de2805d43c907 ∷ 0x3f5002d479e254ac ∷ 0x3f5127f9b796ec29 ∷
    0x3f52621624456492 ∷ 0x3f53b2a99b617f20 ∷ 0x3f551b4f6c6415a0 ∷ 0x3f569dc0516eb698 ∷ 0x3f583bd489e20ba8 ∷
    0x3f59f7861b7937a0 ∷ 0x3f5bd2f33cab6c17 ∷ 0x3f5dd060eb4766c6 ∷ 0x3f5ff23db27292d4 ∷ 0x3f611d9251b7b9be ∷
    0x3f6256f0426685a7 ∷ 0x3f63a6b79df1b883 ∷ 0x3f650e82ba648119 ∷ 0x3f669009469bfdc8 ∷ 0x3f682d2263970635 ∷
    0x3f69e7c6e43390b7 ∷ 0x3f6bc213b61947a8 ∷ 0x3f6dbe4c76c334a9 ∷ 0x3f6fdede37d052db ∷ 0x3f7113313afe4fb6 ∷
    0x3f724bd1233113ec ∷ 0x3f739accdef1f567 ∷ 0x3f7501bdcb75ba47 ∷ 0x3f76825a8cf7248c ∷ 0x3f781e7926c0e51d ∷
    0x3f79d811398ddcc3 ∷ 0x3f7bb13e6afd94a7 ∷ 0x3f7dac42f90d0b21 ∷ 0x3f7fcb8a7cb9bbfb ∷ 0x3f8108d66f973757 ∷
    0x3f8240b8c28b8bb5 ∷ 0x3f838ee959fda2a0 ∷ 0x3f84f5009ae2c039 ∷ 0x3f8674b41f74fb9c ∷ 0x3f880fd8cdf820dc ∷
    0x3f89c86515bda14c ∷ 0x3f8ba0735523d202 ∷ 0x3f8d9a446b7ecd46 ∷ 0x3f8fb8427a0ef56a ∷ 0x3f90fe81ebb14be1 ∷
    0x3f9235a71c5ee5cc ∷ 0x3f93830d0ab2d6ff ∷ 0x3f94e84b23f96cbd ∷ 0x3f966715f90d62b1 ∷ 0x3f98014153d878f4 ∷
    0x3f99b8c272fbe6e0 ∷ 0x3f9b8fb26e5b41f2 ∷ 0x3f9d8850c7766663 ∷ 0x3f9fa50628b47861 ∷ 0x3fa0f433ab7db925 ∷
    0x3fa22a9c2c9695ea ∷ 0x3fa37737ecb251aa ∷ 0x3fa4db9d620a72a4 ∷ 0x3fa6598014bb46ab ∷ 0x3fa7f2b2b300f1e7 ∷
    0x3fa9a9294b8536ea ∷ 0x3fab7efbb076e7bb ∷ 0x3fad76680655c785 ∷ 0x3faf91d581930d84 ∷ 0x3fb0e9ebab2ffa1c ∷
    0x3fb21f97ef20893b ∷ 0x3fb36b69fb9f788a ∷ 0x3fb4cef750695c08 ∷ 0x3fb64bf26d7c9fb7 ∷ 0x3fb7e42ce613d343 ∷
    0x3fb999999999999a ∷ []

-- the bit pattern of old setting n, for an n from 10 to 100
unfoldable pub old_threshold : ℕ → ℕ
unfolding old_thresholds
old_threshold n = get_or old_thresholds (n - first_old_setting) 0

-- the statement of the finer table, here of hundredth powers; these three are proved in proofs/TablesAgree
abbrev pub OldThresholdsNearest : Type 0
OldThresholdsNearest = TableNearest hundredths first_old_setting last_old_setting old_threshold

-- old setting n and new setting 2n stand for one number, which the same pattern is nearest to
abbrev pub OldIsDoubled : Type 0
OldIsDoubled = (n pattern : ℕ) → Nearest hundredths n pattern → Nearest half_hundredths (2 * n) pattern

abbrev pub TablesAgree : Type 0
TablesAgree = (n : ℕ) → first_old_setting ≤ n → n ≤ last_old_setting → old_threshold n ≡ threshold (2 * n)
