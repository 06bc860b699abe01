mod AdmissionLaws
mod LabelLaws
mod DigestLaws
